pub mod View
pub mod Refusal
pub mod Tickets
pub mod Authenticators
pub mod Opening
pub mod Shown
-- laws that proofs cite; readers of a contract don't need them
pub mod OpeningLaws
pub mod PartLaws
pub mod RequestLaws
pub mod ShownLaws
