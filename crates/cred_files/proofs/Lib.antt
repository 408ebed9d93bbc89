pub mod Loops
pub mod Caches
pub mod Keytabs
pub mod KeytabTexts
pub mod Names
pub mod Puts
