pub mod ChangeViews
pub mod AskedViews
