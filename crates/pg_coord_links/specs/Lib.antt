pub mod Counting
pub mod Sockets
