pub mod Buffers
pub mod Lines
pub mod inner
