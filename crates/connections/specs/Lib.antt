pub mod Unread
pub mod Connections
pub mod inner
