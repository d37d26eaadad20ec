pub mod Updates
pub mod Worlds
pub mod ScriptText
pub mod ScriptFaultTexts
pub mod Laws
pub mod Mirrors
