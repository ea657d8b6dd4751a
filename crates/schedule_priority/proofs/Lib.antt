pub mod Problems
pub mod Raising
pub mod Greater
mod ByHeight
pub mod Ordered
pub mod PortSets
pub mod Readers
