pub mod Ranges
pub mod Units
pub mod Operations
pub mod Names
