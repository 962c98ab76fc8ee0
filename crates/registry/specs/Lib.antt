pub mod Polls
pub mod Following
pub mod Registries
