pub mod FieldNames
pub mod Loading
pub mod Gaps
pub mod GapFields
pub mod Passing
