pub mod Forms
pub mod Resolving
