pub mod Claiming
pub mod Backed
