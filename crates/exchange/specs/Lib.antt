-- How a problem is read, worked and answered: definitions that contracts cite.
pub mod Exchanges
