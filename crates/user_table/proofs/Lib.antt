pub mod laws
mod Filling
