pub mod Percents
pub mod Extended
pub mod Segments
pub mod Said
pub mod SegmentViews
