pub mod Solving
pub mod PartMeasures
pub mod Replies
pub mod Mirrors
