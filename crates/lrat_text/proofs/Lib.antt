mod VerbatimLemmas
mod TokenBlockLemmas
pub mod DigitLemmas
pub mod ClauseMapLemmas
pub mod CountingLemmas
pub mod CutLemmas
pub mod FirstByteLemmas
pub mod GroupLemmas
pub mod LineLemmas
pub mod LogLemmas
pub mod NextLemmas
pub mod NumberLemmas
pub mod PieceLemmas
pub mod ReadStepLemmas
pub mod RunLemmas
mod ShortLemmas
mod SignedLemmas
pub mod SpelledStepLemmas
pub mod SpellingLemmas
pub mod LineSinkLemmas
pub mod TokenLemmas
mod WordLemmas
pub mod WrittenLineLemmas
pub mod CanonicalLemmas
