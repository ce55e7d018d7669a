pub mod Call
pub mod Outputs
