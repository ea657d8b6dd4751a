pub mod FrameGraphs
pub mod FramePlans
pub mod Frame
pub mod Planning
