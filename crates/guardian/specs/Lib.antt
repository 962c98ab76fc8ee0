pub mod Guardians
pub mod Writes
