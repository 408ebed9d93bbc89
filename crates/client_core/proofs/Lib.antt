pub mod Results
pub mod Tickets
pub mod Written
