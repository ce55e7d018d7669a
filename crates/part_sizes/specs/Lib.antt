pub mod Listed
pub mod Sizable
pub mod Walked
