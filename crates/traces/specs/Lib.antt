pub mod Traces
pub mod Reading
pub mod Faults
