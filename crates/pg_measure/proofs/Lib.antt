pub mod Rows
pub mod Steps
pub mod Order
pub mod Widths
pub mod Compare
pub mod Counted
pub mod OneList
pub mod SomeBounds
mod Common
