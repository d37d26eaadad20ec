-- Mirrors of code: contracts of private functions cite them, and no definition that a reader has to believe does.
pub mod Kept
pub mod MapLaws
pub mod ScriptScan
pub mod ScriptReading
