pub mod Means
pub mod Complete
pub mod Codes
pub mod Method
pub mod Sheet
