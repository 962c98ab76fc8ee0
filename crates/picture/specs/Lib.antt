pub mod Windows
pub mod Losses
pub mod Layouts
pub mod Escaping
pub mod Shapes
pub mod Documents
