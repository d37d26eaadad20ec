pub mod Nested
pub mod ShapeSays
pub mod ShapeLaws
pub mod Collections
pub mod Deciding
pub mod Rows
