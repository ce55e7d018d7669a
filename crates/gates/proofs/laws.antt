-- Laws, for other crates to use.
pub mod Blocks
pub mod Units
