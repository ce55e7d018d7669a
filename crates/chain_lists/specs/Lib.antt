pub mod Gap
pub mod Reach
pub mod Walk
