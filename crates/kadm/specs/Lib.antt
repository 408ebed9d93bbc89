pub mod Assigning
pub mod Batches
pub mod Ends
pub mod Lines
pub mod Printed
pub mod Types
pub mod Values
pub mod Words
