pub mod DeskLemmas
pub mod WholeLemmas
pub mod StoredLemmas
pub mod InputLemmas
