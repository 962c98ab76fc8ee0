pub mod Items
pub mod Maps
pub mod Parts
pub mod ReadBack
