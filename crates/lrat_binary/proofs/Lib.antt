pub mod NumberLemmas
pub mod ReadLemmas
pub mod ShortLemmas
pub mod SpelledLemmas
pub mod StepSinkLemmas
pub mod TokenLemmas
