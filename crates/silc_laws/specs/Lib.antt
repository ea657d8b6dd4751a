pub mod Forms
pub mod Faults
pub mod Samples
pub mod Complete
