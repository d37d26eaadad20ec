pub mod Linked
pub mod Serving
pub mod Mirrors
