pub mod Length
pub mod Inner
pub mod End
pub mod Ends
pub mod Ready
