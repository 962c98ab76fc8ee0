pub mod Own
pub mod Stepped
pub mod Kept
pub mod Joining
pub mod Apart
pub mod Beginning
pub mod ArmsRan
pub mod Waiting
