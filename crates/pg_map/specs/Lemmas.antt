-- Lemmas that ghost members cite, which must be kept with the definitions.
pub mod Orders
