pub mod Accepted
pub mod Marked
