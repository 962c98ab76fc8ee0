pub mod Places
pub mod Standing
pub mod AllEnded
pub mod Kept
pub mod Crossing
