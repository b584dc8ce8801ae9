pub mod FileTypes
pub mod inner
