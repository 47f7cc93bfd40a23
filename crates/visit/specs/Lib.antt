pub mod Pairs
pub mod Visited
pub mod Parts
