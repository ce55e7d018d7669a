pub mod Fillable
pub mod ListsOf
