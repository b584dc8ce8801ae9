pub mod Templates
pub mod Splitting
pub mod SplitClauses
