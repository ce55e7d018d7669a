pub mod laws
pub mod Fill
pub mod Following
pub mod Literal
pub mod Overlap
pub mod Spelling
