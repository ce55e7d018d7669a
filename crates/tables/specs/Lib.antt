pub mod Rows
pub mod Reading
pub mod Occurrences
pub mod Room
