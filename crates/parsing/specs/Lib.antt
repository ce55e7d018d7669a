pub mod Parsing
pub mod Each
pub mod Numbers
pub mod Valid
