pub mod View
pub mod Known
pub mod Terms
pub mod Rules
pub mod Issue
pub mod Decision
pub mod Refusals
pub mod Answer
pub mod Issued
pub mod Outcome
-- private clauses and proofs cite these; no reader of a public contract needs them
pub mod NamedLaws
pub mod DecisionLaws
pub mod IssuedLaws
pub mod AskedLaws
pub mod OutcomeLaws
pub mod StandingLaws
pub mod RefusalsLaws
