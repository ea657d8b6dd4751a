pub mod SpanLemmas
pub mod Meeting
pub mod Places
pub mod Occupied
pub mod Steps
pub mod OneAnswer
pub mod FromArcs
