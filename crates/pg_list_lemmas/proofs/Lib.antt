pub mod Contained
pub mod Rising
pub mod Runs
pub mod Steps
