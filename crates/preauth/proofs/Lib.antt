pub mod TypesOf
