pub mod Named
pub mod Written
pub mod Found
