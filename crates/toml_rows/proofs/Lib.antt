pub mod AmongKeys
pub mod ArrayEntries
pub mod Turn
pub mod Kept
pub mod FirstRules
pub mod Judged
