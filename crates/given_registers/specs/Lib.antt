pub mod Around
pub mod Faults
pub mod Private
