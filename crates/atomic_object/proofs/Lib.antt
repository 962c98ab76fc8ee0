pub mod Rooms
pub mod Passing
pub mod Crashing
pub mod Granting
pub mod Giving
pub mod Outcomes
