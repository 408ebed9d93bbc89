pub mod Hmac
pub mod Pbkdf2
pub mod Kdf
pub mod Fold
pub mod Hasher
pub mod MacKeys
-- laws that proofs cite; readers of a contract don't need them
pub mod HasherLaws
