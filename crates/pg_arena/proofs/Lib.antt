pub mod Beside
pub mod Members
pub mod Adding
pub mod Finishing
pub mod Unknown
pub mod Unique
pub mod Vertices
pub mod Dualling
pub mod Linking
mod Common
