pub mod Taken
pub mod Listed
pub mod SeparatorAfter
pub mod MessageSlices
pub mod WorkLemmas
