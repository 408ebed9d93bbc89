pub mod Keys
pub mod Lock
pub mod MethodData
pub mod Timestamp
-- laws that proofs cite; readers of a contract don't need them
pub mod KeyLaws
pub mod LengthLaws
