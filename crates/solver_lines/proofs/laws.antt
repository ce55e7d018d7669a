-- Laws, for other crates to use.
pub mod Pieces
pub mod Noting
pub mod Words
pub mod Lines
