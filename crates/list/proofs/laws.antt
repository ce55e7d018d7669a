-- Laws, for other crates to use.
pub mod Fillable
pub mod GapLiterals
pub mod LengthLiterals
pub mod ListsOf
pub mod Literals
pub mod OverLiterals
pub mod Proper
pub mod ReachLiterals
