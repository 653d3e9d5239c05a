pub mod HandshakeLemmas
pub mod JoinLemmas
pub mod NumberLemmas
pub mod OpenedLemmas
pub mod ReadingLemmas
pub mod RecordLemmas
