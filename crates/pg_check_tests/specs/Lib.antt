pub mod Lonely
