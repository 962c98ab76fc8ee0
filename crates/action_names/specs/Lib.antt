pub mod Names
pub mod Fronts
pub mod Deps
pub mod Comparison
pub mod Numbers
pub mod Writing
