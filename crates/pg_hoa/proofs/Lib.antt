pub mod Assembling
pub mod Counting
pub mod GoodSteps
pub mod Instructions
pub mod NamedOutputs
pub mod OneReading
pub mod Refusing
pub mod Saying
pub mod SpeltOnce
pub mod TableAnswers
pub mod TableFilling
pub mod TableLaws
pub mod TableNumbers
pub mod TablePlaces
pub mod TableRegrouped
pub mod TableWords
mod Common
