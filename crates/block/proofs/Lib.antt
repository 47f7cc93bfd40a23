pub mod Fitting
pub mod Printing
