pub mod Plans
pub mod PlanAnswers
pub mod Compiled
pub mod Errors
pub mod Making
pub mod Scheduling
pub mod OneFault
pub mod Complete
mod Examples
