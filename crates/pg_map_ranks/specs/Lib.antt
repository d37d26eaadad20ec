pub mod Ladders
pub mod Laws
pub mod Mirrors
