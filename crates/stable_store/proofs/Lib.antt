pub mod Ordered
pub mod Maps
mod WayBack
mod Made
mod Moving
