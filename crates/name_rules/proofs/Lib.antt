pub mod ManifestMet
pub mod FirstPlaces
pub mod FoundNames
pub mod ApartNames
pub mod Callees
