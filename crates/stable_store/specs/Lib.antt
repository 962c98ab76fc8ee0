pub mod Stored
pub mod Numbers
pub mod Calls
pub mod Held
pub mod Undone
pub mod Plain
pub mod Failing
pub mod Moved
