-- Definitions that mirror code: contracts of private functions cite them, and no definition that a reader has to
-- believe does.
pub mod Steps
pub mod Nests
pub mod Tables
pub mod Views
