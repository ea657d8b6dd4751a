pub mod Tree
pub mod Grammar
pub mod Limits
pub mod Positions
pub mod Manifests
pub mod Names
