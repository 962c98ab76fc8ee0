pub mod Steps
pub mod Tables
pub mod Rosters
pub mod Entries
