pub mod Guarded
pub mod GuardedOf
pub mod Placed
pub mod Guardable
pub mod Private
