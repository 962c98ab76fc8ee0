pub mod Few
pub mod Held
pub mod Indexed
pub mod Places
