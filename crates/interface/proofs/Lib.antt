mod Seven
mod Equals
