pub mod CheckLemmas
pub mod CheckedLemmas
pub mod FormLemmas
pub mod StageLemmas
pub mod StepLemmas
pub mod StreamLemmas
