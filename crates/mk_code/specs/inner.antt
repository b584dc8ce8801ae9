pub mod Decoded
pub mod Strays
pub mod Tables
pub mod Sizes
