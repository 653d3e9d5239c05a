pub mod Decisions
pub mod Heap
pub mod inner
