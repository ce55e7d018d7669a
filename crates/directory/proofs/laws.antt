-- Laws, for other crates to use.
pub mod Rows
pub mod Directory
