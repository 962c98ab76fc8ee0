pub mod Asked
pub mod Told
pub mod Recorded
pub mod Stores
pub mod Whole
