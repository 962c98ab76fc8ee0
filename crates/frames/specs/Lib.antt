pub mod Bound
pub mod Evaluating
pub mod Operating
pub mod Binding
