-- Definitions that mirror code. Contracts of private functions cite them; no definition that a reader has to believe does.
pub mod Nodes
pub mod Views
pub mod Pairs
pub mod Machine
pub mod Run
pub mod Readings
pub mod Scan
pub mod Notes
