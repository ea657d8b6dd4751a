pub mod Reading
pub mod Runs
pub mod States
pub mod Views
