pub mod Labels
pub mod Rules
pub mod Labelled
pub mod Private
pub mod Run
