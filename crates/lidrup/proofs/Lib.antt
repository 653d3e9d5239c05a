pub mod ActingLemmas
pub mod ClosingLemmas
pub mod LogLemmas
pub mod NameLemmas
pub mod NoneLemmas
pub mod StreamLemmas
