pub mod RowsLookedUp
