-- Laws, for other crates to use.
pub mod Counting
pub mod Rows
