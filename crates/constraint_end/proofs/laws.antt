-- Laws, for other crates to use.
pub mod Length
pub mod Inner
pub mod Ends
pub mod Ready
