pub mod ListTurn
pub mod laws
