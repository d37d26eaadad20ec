pub mod Endless
pub mod Attempting
pub mod Deciding
