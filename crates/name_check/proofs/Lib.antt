pub mod Callees
pub mod CallGraph
pub mod Declared
pub mod TreeRows
pub mod NameAnswers
pub mod MainFound
pub mod FewTops
pub mod Examples
