pub mod Clocks
pub mod Unanswered
pub mod Started
