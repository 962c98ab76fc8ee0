pub mod Callers
pub mod Clients
pub mod Laws
