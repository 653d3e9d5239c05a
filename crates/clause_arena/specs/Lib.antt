pub mod Clauses
pub mod Compaction
pub mod Contents
pub mod Slots
pub mod inner
