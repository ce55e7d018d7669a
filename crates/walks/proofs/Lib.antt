pub mod Walk
pub mod Slices
pub mod Calls
