pub mod Names
pub mod Waiting
