pub mod Raising
pub mod Settled
pub mod Knowing
mod Common
