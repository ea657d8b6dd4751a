pub mod StagePlans
pub mod Planning
pub mod Stages
pub mod Pipe
pub mod Private
