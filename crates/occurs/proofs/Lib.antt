pub mod Sets
pub mod Only
pub mod Meaning
pub mod Bindings
