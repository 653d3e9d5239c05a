pub mod StreamLemmas
pub mod MovedLemmas
