pub mod Trees
pub mod Events
pub mod Forests
pub mod Rooms
pub mod Walks
pub mod Acting
