pub mod Votes
pub mod Ballots
