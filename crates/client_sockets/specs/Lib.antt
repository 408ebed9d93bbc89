pub mod Clients
pub mod Presenting
