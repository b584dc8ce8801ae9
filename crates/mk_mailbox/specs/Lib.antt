pub mod Devices
pub mod Dates
pub mod Pieces
pub mod Places
pub mod Held
pub mod Mailboxes
pub mod MailboxLaws
pub mod inner
