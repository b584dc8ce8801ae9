pub mod Inputs
pub mod Owned
pub mod Steps
