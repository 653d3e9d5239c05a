pub mod Coverage
pub mod ClosedLeaves
pub mod Cover
pub mod Receipts
pub mod LogReceipt
pub mod Contents
pub mod inner
