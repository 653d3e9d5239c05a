pub mod Bits
pub mod ClosedLeaves
pub mod Examples
pub mod JoinedLogs
pub mod Trees
pub mod Written
pub mod inner
