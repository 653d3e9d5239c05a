pub mod Accounts
pub mod Run
pub mod Ending
pub mod inner
