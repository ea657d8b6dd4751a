pub mod NameTypes
pub mod Choices
pub mod Given
pub mod ChoiceTyped
pub mod TopSteps
pub mod ItemSteps
pub mod TypeAnswers
