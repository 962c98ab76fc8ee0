pub mod Arrays
pub mod Texts
