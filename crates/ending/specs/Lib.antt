pub mod Covered
pub mod Ended
