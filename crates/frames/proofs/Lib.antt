pub mod Counting
mod Each
mod Evaluated
