pub mod RouteSteps
pub mod WiringSteps
pub mod MissingSteps
pub mod CandidateSteps
pub mod Prefixes
pub mod LightSteps
pub mod BindingSteps
pub mod OneFault
