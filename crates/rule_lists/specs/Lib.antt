pub mod Refusals
pub mod Stages
pub mod Optional
pub mod Entries
pub mod Values
pub mod Changed
-- laws that proofs cite; readers of a contract don't need them
pub mod RefusalLaws
pub mod StageLaws
pub mod ClearLaws
pub mod ConditionLaws
