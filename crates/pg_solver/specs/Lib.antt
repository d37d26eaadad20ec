pub mod Founds
pub mod Mirrors
