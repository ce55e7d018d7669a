-- Laws, for other crates to use.
pub mod Literals
pub mod Cells
