pub mod Channels
pub mod Samples
pub mod FedRows
pub mod Pieces
pub mod Private
