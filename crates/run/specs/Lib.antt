pub mod Meaning
pub mod Tops
pub mod Run
pub mod Circle
pub mod Answer
pub mod Table
