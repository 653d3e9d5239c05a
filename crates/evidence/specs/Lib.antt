pub mod Events
pub mod Evidence
pub mod Jobs
pub mod KeptVerdict
pub mod inner
