pub mod Instances
pub mod Types
pub mod Value
pub mod Solves
pub mod Rules
