pub mod Memories
pub mod Plans
