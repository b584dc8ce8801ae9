pub mod OwnBoundaries
pub mod FreeBoundaries
pub mod FreeLines
pub mod PackLemmas
pub mod TurnedParts
pub mod MeasuredTexts
pub mod GonePieces
pub mod HeldDigests
