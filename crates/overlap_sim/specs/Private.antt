pub mod Stages
pub mod Staged
pub mod Cells
