pub mod Readable
pub mod Kept
pub mod Looking
pub mod Repeated
pub mod Refusals
pub mod Numbers
pub mod Counted
