-- Laws, for other crates to use.
pub mod Copied
pub mod Read
