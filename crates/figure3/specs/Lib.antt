pub mod Figure3
pub mod Ran
pub mod Account
