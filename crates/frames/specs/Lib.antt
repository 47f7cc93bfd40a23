-- How the next problem of a stream came: definitions that contracts cite.
pub mod Came
