pub mod Words
pub mod Variables
pub mod Outputs
pub mod Proper
pub mod NodeWords
pub mod Numbered
pub mod Tables
