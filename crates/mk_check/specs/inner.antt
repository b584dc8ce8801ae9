pub mod LineKinds
pub mod Scans
pub mod FoundViews
