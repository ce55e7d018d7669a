pub mod Rows
pub mod Directory
