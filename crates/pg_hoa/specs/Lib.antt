pub mod AutomatonText
pub mod FaultTexts
pub mod Laws
pub mod Mirrors
pub mod Outputs
