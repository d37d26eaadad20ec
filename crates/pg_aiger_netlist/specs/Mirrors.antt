-- Mirrors of code: contracts of private functions cite them, and no definition that a reader has to believe does.
pub mod Views
pub mod Marks
pub mod Lanes
pub mod Hearing
