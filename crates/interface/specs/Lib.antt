pub mod Values
pub mod Answers
pub mod Rules
pub mod Equality
pub mod Entries
