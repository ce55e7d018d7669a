-- Laws, for other crates to use.
pub mod Table
pub mod Flat
