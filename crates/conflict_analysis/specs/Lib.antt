pub mod BuiltTrails
pub mod Lemmas
pub mod inner
