pub mod Search
pub mod Sorted
