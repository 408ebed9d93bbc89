pub mod Collected
pub mod Fronts
pub mod Keys
pub mod VersionLists
