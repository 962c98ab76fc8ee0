pub mod Places
pub mod Voting
pub mod Participants
