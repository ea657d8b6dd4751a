pub mod Keys
pub mod KeyPlaces
pub mod LastReads
pub mod ReadOrder
pub mod Placements
pub mod Counts
pub mod ArcsOfReads
pub mod Around
