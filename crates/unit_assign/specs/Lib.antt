pub mod Wired
pub mod Bound
pub mod Faults
pub mod Private
