pub mod Names
pub mod Comparing
pub mod Printing
