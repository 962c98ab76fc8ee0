pub mod ThreadRuns
pub mod Ended
