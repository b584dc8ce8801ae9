pub mod Answers
pub mod Parts
pub mod Gathered
pub mod Intakes
