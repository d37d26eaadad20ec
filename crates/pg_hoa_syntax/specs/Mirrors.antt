-- Definitions that mirror code: contracts of private functions cite them, and no definition that a reader has to
-- believe does.
pub mod BodyScan
pub mod FormulaRun
pub mod FormulaScan
pub mod HeaderNames
pub mod HeaderScan
pub mod Kept
pub mod Preambles
pub mod Readings
pub mod Scan
pub mod ShapeRun
pub mod Steps
