pub mod Status
pub mod Values
