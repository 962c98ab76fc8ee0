pub mod Opening
pub mod Reporting
pub mod Saving
pub mod Limits
pub mod Runs
pub mod Texts
pub mod Bytes
