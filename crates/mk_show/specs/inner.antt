pub mod LastPieces
pub mod SaidAnswers
