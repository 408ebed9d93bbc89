pub mod Entries
pub mod Exchanges
pub mod Removed
pub mod Ordered
pub mod Values
pub mod Changed
