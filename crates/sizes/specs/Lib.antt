pub mod Whole
pub mod Opened
pub mod Measured
