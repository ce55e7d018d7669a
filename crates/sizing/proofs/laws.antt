-- Laws, for other crates to use.
pub mod Sums
pub mod Counts
pub mod Limits
