-- Definitions that mirror code: contracts of private functions cite them, and no definition that a reader has to
-- believe does.
pub mod Steps
pub mod Scan
pub mod Parts
pub mod Refusals
pub mod GameScan
pub mod Building
pub mod SolutionScan
pub mod SolutionReading
