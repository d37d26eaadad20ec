pub mod Codes
pub mod Answers
pub mod Commands
pub mod Mirrors
