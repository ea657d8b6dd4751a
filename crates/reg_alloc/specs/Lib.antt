pub mod Allottable
pub mod Faults
pub mod Private
