pub mod Gates
pub mod Runs
pub mod Numbers
pub mod Pushes
pub mod Matches
pub mod Places
pub mod Made
pub mod Wholes
pub mod Exact
pub mod Follows
pub mod Steps
pub mod ReadingBack
pub mod Printing
mod Common
