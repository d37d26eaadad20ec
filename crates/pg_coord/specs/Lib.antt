pub mod Memory
pub mod Mirrors
