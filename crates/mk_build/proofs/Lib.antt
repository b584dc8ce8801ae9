pub mod Failing
pub mod Envelopes
pub mod EndedTexts
pub mod PieceSplits
pub mod PieceTexts
