pub mod ClosedSchedule
pub mod ClosedLaws
pub mod Examples
