pub mod EvidenceLemmas
pub mod KeptVerdictLemmas
