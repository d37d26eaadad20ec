pub mod FaultTexts
pub mod FormulaTexts
pub mod Headers
pub mod Lexemes
pub mod Mirrors
pub mod Syntax
