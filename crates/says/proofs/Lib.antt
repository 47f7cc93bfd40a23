pub mod ByTag
pub mod Saying
