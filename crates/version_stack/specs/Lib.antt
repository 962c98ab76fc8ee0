pub mod Layers
pub mod Beside
