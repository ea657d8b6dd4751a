pub mod Private
pub mod Evaluation
