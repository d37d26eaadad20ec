-- Mirrors of code: contracts of private functions cite them, and no definition that a reader has to believe does.
pub mod Tasks
pub mod CoordinatorMaps
pub mod Joined
pub mod Lines
pub mod Sent
pub mod LinkStates
pub mod Takes
pub mod Telling
pub mod Rounds
