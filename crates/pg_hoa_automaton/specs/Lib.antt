pub mod Formulas
pub mod Shapes
pub mod Automata
pub mod Words
pub mod Laws
pub mod Mirrors
