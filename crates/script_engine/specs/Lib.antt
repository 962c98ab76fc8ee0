pub mod Running
pub mod Storing
pub mod Files
