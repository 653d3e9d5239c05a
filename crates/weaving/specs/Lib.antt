pub mod Woven
pub mod inner
