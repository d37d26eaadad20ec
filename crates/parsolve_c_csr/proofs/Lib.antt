pub mod Built
pub mod Cycles
pub mod Solved
