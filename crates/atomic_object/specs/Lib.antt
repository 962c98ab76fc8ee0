pub mod Kept
pub mod Ways
pub mod Restored
pub mod Staying
