pub mod Signals
pub mod Sound
