pub mod Mirror
pub mod Views
pub mod Reading
pub mod Failing
pub mod Layouts
pub mod Schemas
pub mod First
pub mod Beside
