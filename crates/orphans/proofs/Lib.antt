pub mod Turned
pub mod Indexing
pub mod Learning
pub mod Told
pub mod Sendings
pub mod Histories
pub mod Ancestry
