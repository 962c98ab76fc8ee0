pub mod Few
pub mod Held
