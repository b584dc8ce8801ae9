pub mod Uses
pub mod Walked
pub mod Inserted
pub mod Tagged
