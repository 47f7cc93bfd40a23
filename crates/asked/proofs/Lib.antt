pub mod Added
pub mod Asks
