pub mod Private
pub mod Loops
pub mod Faults
