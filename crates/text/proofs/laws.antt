-- Laws, for other crates to use.
pub mod Lines
pub mod Length
pub mod Ready
pub mod Written
