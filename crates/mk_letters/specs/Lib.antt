pub mod Asked
pub mod RoundsAsked
pub mod FieldForms
