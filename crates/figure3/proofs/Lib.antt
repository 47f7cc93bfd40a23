pub mod Alike
pub mod Termination
pub mod Rules
pub mod Simulation
pub mod Transforms
pub mod Ran
pub mod Second
pub mod Account
