pub mod Games
pub mod Lines
pub mod Mirrors
pub mod Lemmas
pub mod FaultTexts
