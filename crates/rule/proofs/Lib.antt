pub mod Once
pub mod Ruling
