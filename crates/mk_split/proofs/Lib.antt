pub mod SafeTemplates
pub mod SplitLemmas
