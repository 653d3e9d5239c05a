pub mod Packed
pub mod inner
