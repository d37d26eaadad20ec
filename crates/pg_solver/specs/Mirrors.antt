pub mod Known
pub mod Raised
pub mod Zeros
