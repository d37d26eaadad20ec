pub mod Opposite
pub mod Made
pub mod Together
pub mod Outcomes
