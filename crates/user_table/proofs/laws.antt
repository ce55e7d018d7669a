-- Laws, for other crates to use.
pub mod Users
pub mod Filled
pub mod Held
