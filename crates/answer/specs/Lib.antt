pub mod Written
pub mod Fields
pub mod Facts
