pub mod Leading
pub mod Taking
pub mod Underway
pub mod Descending
