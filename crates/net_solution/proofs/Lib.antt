pub mod RowListLaws
pub mod Cycles
pub mod Solving
mod Chain
