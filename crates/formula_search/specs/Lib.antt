pub mod Decisions
pub mod LogSinks
pub mod inner
