pub mod Cuts
pub mod VertexSets
pub mod Frames
pub mod Links
pub mod Mirrors
