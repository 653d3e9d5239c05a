pub mod LawLemmas
pub mod LineLemmas
pub mod ListLemmas
pub mod NodeLemmas
pub mod DivergenceLemmas
pub mod SpellingLemmas
pub mod TokenLemmas
pub mod TreeLemmas
