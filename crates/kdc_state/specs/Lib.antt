pub mod State
pub mod Resumed
pub mod Sizes
