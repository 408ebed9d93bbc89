pub mod Fronts
pub mod Cuttings
pub mod Splittings
