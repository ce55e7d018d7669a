pub mod laws
mod Taking
mod Lengths
mod Deletions
pub mod Turning
mod Driving
