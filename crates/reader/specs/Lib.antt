pub mod Tables
pub mod Noting
pub mod Told
pub mod Found
pub mod Onward
