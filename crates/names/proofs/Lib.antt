pub mod Equal
pub mod Without
