pub mod View
pub mod Known
pub mod Terms
pub mod Rules
pub mod Refusal
pub mod Issue
pub mod Decision
pub mod Answer
pub mod Issued
pub mod Outcome
-- private clauses and proofs cite these; readers of a public contract don't need them
pub mod NamedLaws
pub mod DecisionLaws
pub mod IssuedLaws
pub mod AskedLaws
pub mod OutcomeLaws
pub mod StandingLaws
