pub mod laws
pub mod Distinct
