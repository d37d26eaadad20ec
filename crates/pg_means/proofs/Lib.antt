mod Common
pub mod Alike
pub mod Sameness
pub mod Simplifying
pub mod Tabled
pub mod Whole
