pub mod Scopes
pub mod Names
