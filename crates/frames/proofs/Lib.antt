pub mod Stopping
pub mod Within
