pub mod Automata
pub mod Certificates
pub mod Lassos
pub mod Laws
pub mod Mirrors
