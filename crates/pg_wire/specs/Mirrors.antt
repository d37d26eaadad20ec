-- Mirrors of code: contracts of private functions cite them, and no definition that a reader has to believe does.
pub mod Reading
pub mod Formats
pub mod Ordered
pub mod Between
pub mod Buffers
pub mod Lengths
