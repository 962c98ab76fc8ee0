pub mod Worlds
pub mod Running
pub mod Stops
pub mod GoingOn
