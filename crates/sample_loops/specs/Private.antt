pub mod Buffers
pub mod Running
pub mod Ranges
pub mod MachineLaws
pub mod EvaluatorLaws
pub mod Streaming
