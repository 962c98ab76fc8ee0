pub mod Objects
pub mod Outcomes
pub mod Turns
pub mod Operations
pub mod Crashes
pub mod Parts
pub mod Restored
