pub mod FirstMet
