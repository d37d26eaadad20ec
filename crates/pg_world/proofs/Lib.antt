pub mod Joining
pub mod Keeping
pub mod Refusing
pub mod Running
pub mod Happening
pub mod Showing
pub mod Lifting
pub mod Noting
pub mod Replicas
pub mod ScriptLines
pub mod ScriptReads
pub mod ScriptHeads
mod Common
