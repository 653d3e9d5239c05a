pub mod DecisionLemmas
pub mod MemberLemmas
pub mod MoveLemmas
pub mod OrderLemmas
pub mod PairLemmas
pub mod RowLemmas
pub mod ScoreLemmas
