pub mod Lines
pub mod Given
pub mod Faults
pub mod Registers
pub mod Private
