pub mod Late
pub mod Staging
pub mod Piping
pub mod Complete
mod Examples
