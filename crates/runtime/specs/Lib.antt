pub mod Answering
pub mod Faults
pub mod Receipts
pub mod Waiting
