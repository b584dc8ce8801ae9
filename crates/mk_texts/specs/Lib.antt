pub mod Texts
pub mod TextViews
pub mod Words
pub mod WordViews
pub mod inner
