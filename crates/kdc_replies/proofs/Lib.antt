pub mod Results
pub mod FirstItems
pub mod ErrorLengths
