pub mod SubjectStarts
pub mod HeaderMade
pub mod SpaceTrimmed
pub mod FoldedWords
pub mod HeaderRead
