pub mod Held
pub mod Private
