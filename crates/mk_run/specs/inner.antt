pub mod Doings
pub mod Keeping
pub mod Making
pub mod Sessions
