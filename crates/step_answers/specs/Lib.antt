pub mod Actors
pub mod Arms
pub mod Checks
pub mod Saying
