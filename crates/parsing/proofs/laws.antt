-- Laws, for other crates to use.
pub mod Parsing
pub mod Each
pub mod Numbers
pub mod Calendar
pub mod ValidRows
