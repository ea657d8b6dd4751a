pub mod Numbers
pub mod Idle
pub mod Private
