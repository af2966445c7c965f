pub mod Parts
pub mod Cuts
