-- Laws, for other crates to use.
pub mod Decoded
pub mod SolverText
