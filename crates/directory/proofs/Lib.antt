pub mod laws
pub mod Exact
