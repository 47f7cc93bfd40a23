-- What the program judge reads, works and prints: definitions that its impl of `exchange::Work` and the proof of that cite.
pub mod Printing
pub mod Serving
