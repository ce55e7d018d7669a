pub mod Noting
pub mod Reading
