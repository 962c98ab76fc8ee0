pub mod Fronts
pub mod Growth
pub mod Kept
pub mod Laid
pub mod Named
