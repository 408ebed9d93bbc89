pub mod Spelling
pub mod Int
pub mod Bits
pub mod Civil
pub mod Digits
pub mod Time
pub mod Reading
pub mod Items
pub mod Ended
-- laws that proofs cite; readers of a contract don't need them
pub mod StepLaws
pub mod Laws
pub mod IntLaws
pub mod BitLaws
pub mod LeafLaws
pub mod ElementLaws
