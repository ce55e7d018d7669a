pub mod Ground
pub mod Stored
