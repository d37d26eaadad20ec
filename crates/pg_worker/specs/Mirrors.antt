-- Mirrors of code: contracts of private functions cite them, and no definition that a reader has to believe does.
pub mod Lifts
pub mod Insides
pub mod Replies
pub mod Joins
pub mod Steps
pub mod Faults
pub mod Sessions
