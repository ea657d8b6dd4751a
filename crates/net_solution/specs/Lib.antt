pub mod RowLists
pub mod Solutions
pub mod Private
