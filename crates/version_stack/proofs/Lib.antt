pub mod Ends
pub mod Handing
pub mod Under
pub mod Joining
pub mod Owners
pub mod Stacked
pub mod Amounts
