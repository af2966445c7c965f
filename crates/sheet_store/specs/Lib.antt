pub mod Tiles
pub mod Stored
pub mod Adding
pub mod Fields
