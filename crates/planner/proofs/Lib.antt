pub mod LongestPaths
pub mod Asked
pub mod Stages
pub mod Answers
pub mod Exits
pub mod OneOutcome
pub mod OnePlan
