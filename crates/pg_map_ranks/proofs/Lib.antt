pub mod Rising
pub mod Blocking
pub mod Counting
pub mod Writing
pub mod Ranking
mod Common
