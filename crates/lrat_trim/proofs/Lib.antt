pub mod BlockLemmas
pub mod FeedLemmas
pub mod LetterLemmas
