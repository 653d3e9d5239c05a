pub mod WorkerLog
pub mod inner
