pub mod Reading
pub mod Credential
pub mod Obtaining
pub mod Joined
