pub mod Presenting
