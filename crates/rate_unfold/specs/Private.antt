pub mod Unfolding
pub mod Limits
