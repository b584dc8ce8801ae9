pub mod Building
pub mod BuildViews
pub mod Multiparts
pub mod Forwards
pub mod ForwardViews
pub mod Pieces
pub mod inner
