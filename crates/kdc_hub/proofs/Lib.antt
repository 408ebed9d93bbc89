pub mod Tables
pub mod Streams
pub mod Steps
pub mod Logs
pub mod Auditing
pub mod Cuts
pub mod Working
pub mod Rounds
pub mod Runs
pub mod Histories
pub mod Due
pub mod Owning
mod Moved
pub mod Lives
