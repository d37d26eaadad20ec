-- Mirrors of code: no definition that a reader has to believe cites them.
pub mod Listed
