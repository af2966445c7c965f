mod Answered
mod Joins
mod PageKeeps
mod Sorted
mod Positions
mod Finds
