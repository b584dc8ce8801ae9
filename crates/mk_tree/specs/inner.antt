pub mod Said
pub mod Marked
