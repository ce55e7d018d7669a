pub mod Kind
pub mod Made
pub mod Answers
pub mod Table
pub mod Flat
