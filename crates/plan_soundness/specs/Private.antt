pub mod Cells
pub mod Solution
