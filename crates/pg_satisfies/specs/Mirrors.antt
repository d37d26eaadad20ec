-- Definitions that mirror code. Contracts of private functions cite them; no definition that a reader has to believe does.
pub mod Attempts
