pub mod Given
pub mod Table
pub mod Queue
pub mod Unsent
pub mod Lost
