pub mod Found
pub mod Counting
pub mod Appended
pub mod Parts
mod Counted
