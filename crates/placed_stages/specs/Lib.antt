pub mod StagePlaces
pub mod StageCauses
pub mod StageFaults
pub mod Private
