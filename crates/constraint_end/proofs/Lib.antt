pub mod laws
mod Faults
