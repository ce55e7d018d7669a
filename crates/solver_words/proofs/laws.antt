-- Laws, for other crates to use.
pub mod Words
pub mod Numerals
pub mod Literals
