pub mod Literals
pub mod Rows
