pub mod FormLemmas
pub mod LineLemmas
pub mod CodeLemmas
pub mod SpellingLemmas
pub mod LawLemmas
