pub mod Problem
pub mod Reader
pub mod Readable
pub mod Held
pub mod Look
pub mod Told
