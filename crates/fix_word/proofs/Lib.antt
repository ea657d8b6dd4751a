pub mod Floors
pub mod Wraps
pub mod Clips
pub mod Shifts
pub mod Forms
pub mod Conversions
pub mod Nearest
pub mod Examples
pub mod Operations
mod Bodies
