pub mod HandedLemmas
pub mod KeptLemmas
pub mod PartLemmas
pub mod RestoredLemmas
pub mod SpellingLemmas
pub mod TextLemmas
pub mod WrittenLemmas
