pub mod Inputs
pub mod NeverOutput
