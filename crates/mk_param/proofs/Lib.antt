pub mod Percents
pub mod Kept
pub mod Texts
pub mod Joined
pub mod SaidTexts
