pub mod AsBox
pub mod Faults
pub mod Moments
pub mod RawKeys
