pub mod SessionHistory
pub mod inner
