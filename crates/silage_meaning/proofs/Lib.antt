pub mod Values
pub mod Sources
pub mod Instances
pub mod Outputs
pub mod InputRows
pub mod Elements
pub mod Local
pub mod Unique
pub mod Apart
mod Examples
