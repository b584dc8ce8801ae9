pub mod FilterLemmas
pub mod RoundLemmas
pub mod WordsRead
pub mod GatheredLemmas
pub mod ToldLemmas
pub mod TurnLemmas
pub mod HeadersAlone
pub mod HeaderRounds
