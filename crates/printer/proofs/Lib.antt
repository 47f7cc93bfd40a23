pub mod Placing
pub mod Spelling
pub mod Walking
pub mod Answering
pub mod Fitting
pub mod Telling
