pub mod Ranked
pub mod Rules
pub mod Private
