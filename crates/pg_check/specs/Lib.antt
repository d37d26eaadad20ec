pub mod Plays
pub mod Soundness
pub mod Laws
pub mod Verdicts
pub mod Strategies
pub mod Mirrors
