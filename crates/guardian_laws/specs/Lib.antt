pub mod Actions
pub mod Outcomes
pub mod Sent
pub mod Crashes
pub mod Laws
pub mod Stored
pub mod StoreLaws
pub mod Reopened
