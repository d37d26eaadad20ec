pub mod Claims
pub mod Known
pub mod Laws
pub mod Mirrors
