pub mod RowWords
pub mod PutRows
