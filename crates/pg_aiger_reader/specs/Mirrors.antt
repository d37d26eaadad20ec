-- Mirrors of code: contracts of private functions cite them, and no definition that a reader has to believe does.
pub mod Scan
pub mod Steps
pub mod Headers
pub mod Items
pub mod Reading
pub mod Sections
pub mod Symbols
pub mod Places
