pub mod Sessions
pub mod Walking
pub mod Tagging
