pub mod Runs
pub mod Inside
mod Loops
mod Waits
mod Pairs
mod Puts
mod OtherErrors
