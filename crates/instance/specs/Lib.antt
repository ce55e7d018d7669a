pub mod Answers
pub mod Stores
pub mod File
pub mod Start
pub mod Laws
