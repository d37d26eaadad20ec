pub mod Letters
pub mod AutomatonGames
pub mod Tracing
pub mod Machines
pub mod Answers
pub mod FaultTexts
pub mod Laws
pub mod Mirrors
