pub mod Counts
pub mod Legible
pub mod Texts
pub mod Queries
pub mod Keys
pub mod Finds
pub mod PartRows
pub mod Decides
pub mod Means
pub mod Placed
pub mod Cascade
pub mod Discards
pub mod Forgets
pub mod Items
mod PartTexts
pub mod Numbers
pub mod Listed
pub mod Tables
pub mod Records
pub mod Statements
pub mod Viewed
mod Same
mod Read
mod Rising
mod Greatest
mod Utf8
pub mod Told
