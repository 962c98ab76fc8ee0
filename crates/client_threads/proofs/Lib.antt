pub mod Closing
pub mod Crossing
pub mod Keeping
pub mod Running
