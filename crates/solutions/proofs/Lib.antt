pub mod Step
pub mod Run
pub mod Named
pub mod Instances
pub mod Answers
pub mod Corollaries
pub mod Judge
