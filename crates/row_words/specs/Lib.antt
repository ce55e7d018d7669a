pub mod Literals
pub mod Cells
pub mod Rows
