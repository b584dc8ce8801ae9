pub mod WordParts
pub mod RuleEdits
pub mod TextsPut
pub mod FieldsSaid
