pub mod Lending
pub mod Keeping
pub mod Naming
pub mod Standings
