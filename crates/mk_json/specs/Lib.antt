pub mod Strings
pub mod MessageObjects
