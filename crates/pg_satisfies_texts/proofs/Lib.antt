pub mod Noting
pub mod Tables
pub mod Meant
pub mod Judged
