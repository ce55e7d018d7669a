-- Laws, for other crates to use.
pub mod Same
pub mod Answers
