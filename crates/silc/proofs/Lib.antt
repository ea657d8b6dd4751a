pub mod Listing
pub mod MachineSamples
pub mod Demonstrating
mod Keeping
pub mod Allowed
pub mod Endings
pub mod Reports
pub mod Complete
