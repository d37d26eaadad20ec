pub mod Netlists
pub mod Steps
pub mod Hearing
pub mod Laws
pub mod Mirrors
