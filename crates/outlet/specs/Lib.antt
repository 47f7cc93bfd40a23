-- What writing bytes gives back: definitions that contracts cite.
pub mod Puts
