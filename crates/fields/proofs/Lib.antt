pub mod laws
pub mod KindNumbers
pub mod Rows
mod Left
