pub mod Kinds
pub mod Places
pub mod Counts
pub mod Prometheus
pub mod CountText
pub mod Numbers
