pub mod Blames
pub mod Fronts
pub mod GivenUp
pub mod Slices
