pub mod Refusal
pub mod Journal
pub mod Recorded
pub mod InMemory
pub mod Unrecorded
pub mod Keeping
pub mod KeepingLaws
