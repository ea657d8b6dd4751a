pub mod Values
pub mod Rows
pub mod Texts
pub mod Reading
pub mod RowRules
