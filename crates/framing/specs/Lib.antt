pub mod Stream
pub mod Messages
pub mod Splitting
pub mod Pieces
