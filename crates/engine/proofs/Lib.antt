pub mod laws
pub mod Demand1
