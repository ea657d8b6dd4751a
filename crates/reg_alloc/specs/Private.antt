pub mod Spans
pub mod Occupancies
pub mod Files
pub mod Placing
