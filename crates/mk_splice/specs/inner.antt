pub mod Tries
pub mod Parts
pub mod Readings
pub mod Open
