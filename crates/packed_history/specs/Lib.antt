pub mod Plain
pub mod Steps
pub mod Answers
pub mod Arenas
