pub mod Field
pub mod Input
pub mod Line
pub mod Octets
pub mod Run
pub mod Script
