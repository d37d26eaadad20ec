pub mod Measures
pub mod Games
pub mod Views
pub mod Laws
pub mod Mirrors
pub mod Lemmas
