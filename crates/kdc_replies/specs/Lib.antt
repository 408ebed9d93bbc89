pub mod Incoming
pub mod ErrorReply
pub mod ServiceTerms
pub mod Standing
pub mod GoodStanding
pub mod Grant
pub mod Reply
pub mod Issue
pub mod Granted
pub mod Audits
-- laws that proofs cite; readers of a contract don't need them
pub mod ServiceTermsLaws
pub mod GoodStandingLaws
pub mod GrantLaws
pub mod LengthLaws
