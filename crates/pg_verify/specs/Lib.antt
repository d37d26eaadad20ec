pub mod Verdicts
pub mod Reached
pub mod Products
pub mod Laws
pub mod Mirrors
