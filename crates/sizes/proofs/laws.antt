-- Laws, for other crates to use.
pub mod Whole
pub mod Opened
pub mod Measured
