pub mod Prepared
pub mod Reading
pub mod Running
