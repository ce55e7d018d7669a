-- Laws, for other crates to use.
pub mod Ready
pub mod File
pub mod Start
pub mod Checked
pub mod Laws
