-- What one problem of a stream prints: definitions that contracts cite.
pub mod Block
