-- Laws, for other crates to use.
pub mod Calls
pub mod Matches
pub mod Beyond
pub mod Hard
pub mod Drawn
pub mod Printed
pub mod Spelled
