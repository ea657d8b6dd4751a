pub mod DefAnswers
pub mod MainTops
pub mod Examples
