pub mod Tests
pub mod Covering
pub mod Resolving
pub mod Deciding
