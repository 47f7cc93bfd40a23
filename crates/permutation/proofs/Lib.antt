pub mod Swaps
pub mod Table
pub mod Store
