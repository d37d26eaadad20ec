pub mod Winners
