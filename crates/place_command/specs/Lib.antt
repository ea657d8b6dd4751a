pub mod Refusals
pub mod Placed
pub mod Private
