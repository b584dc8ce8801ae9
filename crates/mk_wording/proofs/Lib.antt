pub mod Parts
pub mod StretchLemmas
pub mod Entries
pub mod FieldLemmas
pub mod Quoted
pub mod WordedAs
pub mod AddressPieces
pub mod PlainAddresses
