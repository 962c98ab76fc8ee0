pub mod Stacks
pub mod Deltas
pub mod Locks
pub mod Objects
