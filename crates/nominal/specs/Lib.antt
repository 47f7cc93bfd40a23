pub mod Tree
pub mod Figure2
pub mod Solutions
pub mod Form
pub mod Decide
pub mod Adequacy
pub mod Same
