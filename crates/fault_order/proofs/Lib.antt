pub mod FirstFaults
pub mod TableFaults
