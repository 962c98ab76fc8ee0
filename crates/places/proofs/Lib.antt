pub mod Keeping
pub mod Looking
pub mod Standing
pub mod Growing
pub mod Walking
