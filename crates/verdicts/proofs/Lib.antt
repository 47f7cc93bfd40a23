pub mod Protection
pub mod Runs
pub mod Ended
