pub mod Faults
pub mod Settling
pub mod Steps
pub mod Finding
pub mod Belonging
pub mod Opened
pub mod Saying
pub mod Beginning
