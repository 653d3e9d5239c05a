pub mod Answers
pub mod Cubes
pub mod MemoryNeeds
pub mod Readers
pub mod WireFormat
pub mod Stream
pub mod inner
