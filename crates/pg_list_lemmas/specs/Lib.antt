pub mod Bytes
pub mod Rising
