pub mod Conflicts
pub mod Counts
pub mod Outcome
pub mod Subsequences
pub mod Session
pub mod SessionLog
pub mod Stepwise
pub mod inner
