pub mod Pushes
pub mod Searches
pub mod Operands
