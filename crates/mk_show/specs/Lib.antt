pub mod Shown
pub mod Portions
pub mod GivenPieces
pub mod Folders
pub mod Unpacking
pub mod Chosen
pub mod UnpackClauses
pub mod inner
