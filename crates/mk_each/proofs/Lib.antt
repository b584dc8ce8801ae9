pub mod EditedApart
pub mod UnpackedAlone
