pub mod Lengths
pub mod Spelled
