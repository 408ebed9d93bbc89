pub mod Dates
pub mod LineWords
pub mod Numbers
pub mod Settings
pub mod Spans
pub mod Etypes
pub mod Values
-- laws that proofs cite; readers of a contract don't need them
pub mod SettingLaws
