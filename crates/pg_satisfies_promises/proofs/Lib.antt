pub mod NodeLists
pub mod Rows
pub mod Tries
