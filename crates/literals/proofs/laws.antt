-- Laws, for other crates to use.
pub mod Words
pub mod Variables
pub mod Outputs
pub mod Proper
pub mod NodeWords
pub mod Entries
pub mod Laws
pub mod Tables
pub mod Passed
pub mod Blocks
