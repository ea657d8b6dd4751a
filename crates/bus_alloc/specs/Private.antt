pub mod Rows
pub mod Fresh
pub mod Taking
pub mod Stands
pub mod History
