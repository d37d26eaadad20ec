pub mod Recurring
pub mod Cycles
pub mod Wins
pub mod Leaving
pub mod Searches
pub mod Trails
pub mod Checking
pub mod Certified
pub mod Chosen
pub mod Listed
pub mod Winning
pub mod Deciding
pub mod Ordered
pub mod OneParity
mod Common
