pub mod Comparing
pub mod SealingSteps
pub mod MacKeys
pub mod FactsOfSha1Types
pub mod FactsOfSha2Types
