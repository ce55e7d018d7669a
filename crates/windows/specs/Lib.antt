pub mod Window
pub mod Answers
pub mod Times
