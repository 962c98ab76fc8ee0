pub mod Votes
pub mod Asked
pub mod Follows
pub mod Reading
pub mod Planned
