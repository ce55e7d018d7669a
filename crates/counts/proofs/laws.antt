-- Laws, for other crates to use.
pub mod UnitLines
pub mod CountLines
