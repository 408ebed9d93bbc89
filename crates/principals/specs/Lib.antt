pub mod Change
pub mod Database
pub mod FaultName
pub mod Importing
pub mod NamesLaws
