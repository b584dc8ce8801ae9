pub mod ShownLemmas
pub mod UnpackLemmas
pub mod ChoosingLemmas
pub mod SentPieces
pub mod Targets
pub mod LeavesInTurn
pub mod TakenInTurn
