-- How a stream stands: definitions that contracts cite.
pub mod Settled
