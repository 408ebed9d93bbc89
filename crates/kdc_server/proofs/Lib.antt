pub mod Ready
pub mod Serving
mod Fixed
mod Handings
mod Restarts
mod Journaled
pub mod Asked
pub mod OnFiles
mod Runs
mod OneRun
