pub mod Wording
pub mod Filtering
pub mod FilterViews
pub mod FilterClauses
pub mod inner
