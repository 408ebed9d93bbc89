mod Faults
pub mod KeyTexts
mod LineTexts
mod Lines
mod Running
mod Taken
mod Bounded
