pub mod Desks
pub mod Statuses
pub mod Calls
pub mod Mail
pub mod Building
pub mod inner
