-- Mirrors of code: contracts of private functions cite them, and no definition that a reader has to believe does.
pub mod Views
pub mod Drafts
pub mod Tables
pub mod Steps
pub mod Layouts
