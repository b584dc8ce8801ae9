pub mod SpaceAround
pub mod Replies
pub mod ReplyRuns
pub mod ReplyLaws
