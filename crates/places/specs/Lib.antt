pub mod Children
pub mod Placed
pub mod Rows
pub mod Trees
