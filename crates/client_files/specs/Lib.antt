pub mod CachePaths
pub mod Caches
pub mod Clocks
pub mod Configs
pub mod Holding
pub mod Hosts
