pub mod Labels
pub mod EachListed
pub mod EachExtracted
pub mod EachUnpacked
pub mod EachEdited
