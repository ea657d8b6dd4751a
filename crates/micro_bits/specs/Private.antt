pub mod Placed
pub mod Writes
