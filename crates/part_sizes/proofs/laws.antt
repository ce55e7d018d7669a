-- Laws, for other crates to use.
pub mod Listed
pub mod Sizable
pub mod Walked
