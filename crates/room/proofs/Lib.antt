pub mod Distinct
pub mod Weights
pub mod Waiting
pub mod Bytes
pub mod Reached
pub mod Room
pub mod Answers
