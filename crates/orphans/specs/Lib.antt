pub mod Indexes
pub mod Logs
pub mod Sending
pub mod Knowing
