pub mod CacheSessions
pub mod Ends
pub mod Given
pub mod Principals
pub mod Words
pub mod Worlds
