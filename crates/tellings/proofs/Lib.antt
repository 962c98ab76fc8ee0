pub mod Rows
pub mod Histories
pub mod Planning
pub mod Climbing
