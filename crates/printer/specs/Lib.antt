pub mod Placed
pub mod Lines
pub mod Printed
pub mod Kinds
pub mod Tags
