pub mod ByHeaders
pub mod Telling
