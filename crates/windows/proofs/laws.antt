-- Laws, for other crates to use.
pub mod Row
pub mod Times
pub mod Windows
