pub mod AppendLemmas
pub mod LineLemmas
pub mod LogLemmas
pub mod ModelLemmas
pub mod ReaderStepLemmas
pub mod HistoryLemmas
