pub mod Taken
pub mod Sessions
pub mod Obtained
pub mod Accepted
pub mod Answered
pub mod Serving
pub mod Ruled
pub mod Carrying
