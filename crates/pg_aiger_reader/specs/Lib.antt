pub mod FaultTexts
pub mod Faults
pub mod Laws
pub mod Mirrors
pub mod Texts
pub mod Ties
pub mod Views
