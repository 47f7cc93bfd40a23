-- What the program stream does with one problem: definitions that its contracts cite.
pub mod Turned
pub mod Written
