pub mod Inputs
pub mod Lean
pub mod Words
