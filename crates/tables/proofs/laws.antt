-- Laws, for other crates to use.
pub mod Laws
pub mod Reading
pub mod Occurrences
pub mod Room
