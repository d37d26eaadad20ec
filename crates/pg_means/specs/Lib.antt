pub mod Verdicts
pub mod Priorities
pub mod Mirrors
