pub mod Renumbered
pub mod inner
