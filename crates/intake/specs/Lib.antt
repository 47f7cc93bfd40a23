-- What filling lent bytes gives back: definitions that contracts cite.
pub mod Fills
