pub mod Numbers
pub mod Rows
pub mod Counts
pub mod Descendants
pub mod Changes
pub mod Somebody
pub mod FewRows
