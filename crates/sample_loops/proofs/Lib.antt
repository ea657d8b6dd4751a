mod Appending
mod Passing
mod Piecing
mod Stops
mod SampleRuns
pub mod RowWords
mod Growing
mod Streaming
mod PieceRuns
mod Endings
pub mod TypedRows
