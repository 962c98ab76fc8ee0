pub mod Types
pub mod Parts
pub mod Objects
pub mod Prepared
pub mod Contents
pub mod Belong
pub mod Reopening
