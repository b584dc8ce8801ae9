pub mod Bounds
pub mod InTurn
pub mod Clean
