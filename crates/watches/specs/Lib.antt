pub mod Status
pub mod Law
pub mod Watches
pub mod ClauseNumbers
pub mod Trails
pub mod inner
