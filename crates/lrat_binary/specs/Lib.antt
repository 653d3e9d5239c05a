pub mod Grammar
pub mod PartialStep
pub mod Parser
pub mod StepSink
pub mod inner
