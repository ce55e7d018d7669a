pub mod UnitLines
pub mod CountLines
