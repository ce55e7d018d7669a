pub mod laws
pub mod Building
