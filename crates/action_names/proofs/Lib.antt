pub mod Paths
pub mod Fronts
pub mod Text
pub mod Growing
pub mod Entries
pub mod Ancestry
pub mod Order
