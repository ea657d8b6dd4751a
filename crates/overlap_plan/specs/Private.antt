pub mod Placing
pub mod Errors
