pub mod Writing
pub mod Fields
pub mod Facts
pub mod Answer
