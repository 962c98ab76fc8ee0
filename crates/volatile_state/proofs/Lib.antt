pub mod Agreed
pub mod Operated
pub mod Held
pub mod Sound
pub mod Untouched
pub mod Readings
pub mod Kept
