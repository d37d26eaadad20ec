pub mod Faults
pub mod Workers
pub mod Turns
pub mod Serving
pub mod Above
pub mod Laws
pub mod Mirrors
