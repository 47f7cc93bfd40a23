pub mod Going
pub mod Met
