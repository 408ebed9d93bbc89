pub mod Refusal
pub mod HeldKey
pub mod Keytab
pub mod Tickets
pub mod Authenticators
pub mod Validity
