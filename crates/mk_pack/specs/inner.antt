pub mod PackedFrom
pub mod Judged
