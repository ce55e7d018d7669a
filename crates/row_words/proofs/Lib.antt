pub mod laws
pub mod RowLines
