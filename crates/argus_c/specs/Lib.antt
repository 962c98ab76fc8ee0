pub mod Owning
pub mod Codes
pub mod Keeping
pub mod Sessions
pub mod Reopening
pub mod Writing
pub mod Calls
