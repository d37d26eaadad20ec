pub mod Lists
pub mod Ranges
pub mod Joining
pub mod Reading
pub mod Fitting
pub mod VertexSets
