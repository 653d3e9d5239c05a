pub mod Carriers
pub mod inner
