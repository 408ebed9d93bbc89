pub mod Line
pub mod LinePlace
pub mod Values
pub mod Kdc
pub mod Included
