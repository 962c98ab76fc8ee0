pub mod Places
pub mod Scoping
