mod Arrows
mod Counts
