pub mod Shown
pub mod Changes
pub mod Laws
pub mod OnceTold
pub mod Heard
pub mod EventLaws
