pub mod OutputLines
pub mod Base64Text
pub mod QuotedPrintable
pub mod Charsets
pub mod EncodedWords
pub mod Contents
pub mod Base64Fronts
pub mod inner
