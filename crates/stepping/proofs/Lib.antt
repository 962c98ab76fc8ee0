pub mod Beside
pub mod Making
