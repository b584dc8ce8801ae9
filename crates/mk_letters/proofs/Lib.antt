pub mod RoundsOfWords
pub mod Wordings
