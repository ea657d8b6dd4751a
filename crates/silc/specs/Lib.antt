pub mod Listing
pub mod Demo
pub mod Kept
pub mod Runs
pub mod Endings
pub mod Private
