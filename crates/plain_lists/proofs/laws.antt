-- Laws, for other crates to use.
pub mod Atoms
pub mod Plain
