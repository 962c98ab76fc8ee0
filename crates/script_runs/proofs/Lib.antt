pub mod Bases
pub mod Outcomes
