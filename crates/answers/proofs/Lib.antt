pub mod LawLemmas
pub mod LineLemmas
pub mod NamedLemmas
pub mod PieceLemmas
pub mod ReportLemmas
pub mod TokenLemmas
pub mod ToldLemmas
pub mod WordLemmas
