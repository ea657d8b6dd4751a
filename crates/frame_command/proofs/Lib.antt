pub mod FrameGraphs
pub mod OneFrameGraph
pub mod Framing
pub mod Framed
pub mod OneRefusal
pub mod Complete
pub mod OnePhase
