pub mod Serving
pub mod Reading
pub mod Judging
pub mod Tracing
