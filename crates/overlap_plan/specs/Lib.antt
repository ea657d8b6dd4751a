pub mod IsStagePlan
pub mod Faults
pub mod StagePlanned
pub mod StageText
pub mod Lines
pub mod Staged
pub mod Private
