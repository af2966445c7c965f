pub mod Puts
pub mod LinesLemmas
pub mod Unwraps
