pub mod Columns
pub mod Taken
pub mod Standings
