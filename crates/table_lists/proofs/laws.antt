-- Laws, for other crates to use.
pub mod Writing
