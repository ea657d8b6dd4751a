pub mod Running
pub mod Evaluating
