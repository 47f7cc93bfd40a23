pub mod Sent
pub mod Rows
pub mod Waiting
pub mod Asking
pub mod Growth
pub mod Told
