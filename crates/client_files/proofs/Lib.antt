mod ConfigLaws
mod HeldCaches
mod NamedCaches
mod NewCaches
mod Tokens
