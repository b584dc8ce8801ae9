pub mod ScanViews
pub mod StretchViews
pub mod ReaderViews
