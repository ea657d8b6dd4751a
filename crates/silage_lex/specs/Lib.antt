pub mod Bytes
pub mod Texts
pub mod Positions
pub mod Tokens
pub mod Faults
pub mod Scan
