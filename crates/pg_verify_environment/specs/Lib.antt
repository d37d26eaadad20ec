pub mod Counterparts
pub mod Environments
pub mod Laws
pub mod Mirrors
