pub mod Separators
pub mod WorkSteps
