-- Laws, for other crates to use.
pub mod Truth
pub mod Answers
