pub mod Endings
pub mod Piped
pub mod Unpiped
pub mod Private
