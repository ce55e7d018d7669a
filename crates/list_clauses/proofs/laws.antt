-- Laws, for other crates to use.
pub mod Stored
pub mod Filled
