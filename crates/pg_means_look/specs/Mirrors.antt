-- Definitions that mirror code. Contracts of private functions cite them; no definition that a reader has to believe does.
pub mod Tables
pub mod Choices
pub mod Views
pub mod Places
pub mod Pools
