-- Laws, for other crates to use.
pub mod Gap
pub mod Reach
