pub mod Errors
pub mod Units
pub mod Placing
pub mod Stages
pub mod Answers
