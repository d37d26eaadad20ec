pub mod Runs
pub mod Working
pub mod Steps
pub mod StepsJoined
pub mod Packing
pub mod Joining
pub mod Taking
pub mod Growing
pub mod Listed
pub mod Exchanging
pub mod Under
pub mod Bounded
pub mod Framing
pub mod Replies
pub mod Sessions
mod Common
