pub mod laws
pub mod Softs
