pub mod MessageLines
pub mod TakenOut
pub mod MessageLaws
pub mod Working
pub mod inner
