pub mod Columns
pub mod Report
