pub mod OwnBoundary
pub mod FreeBoundary
pub mod Packing
pub mod Parts
pub mod Alone
pub mod inner
