-- Definitions that mirror code. Contracts of private functions cite them; no definition that a reader has to believe does.
pub mod Reading
pub mod Parting
pub mod Naming
pub mod Unsolved
pub mod Looking
pub mod Synthesised
pub mod Working
pub mod Small
pub mod Counter
