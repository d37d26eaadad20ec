pub mod Names
pub mod FaultTexts
pub mod Judging
pub mod Printing
pub mod Mirrors
