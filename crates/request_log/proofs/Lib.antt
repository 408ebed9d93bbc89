pub mod Printed
pub mod Shown
pub mod Named
pub mod Dates
mod Fields
