-- Lemmas that ghost members cite, and which must be with the definitions.
pub mod Duals
