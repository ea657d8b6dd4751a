pub mod Listing
pub mod Demonstrating
