pub mod ServiceLemmas
pub mod SplitLemmas
pub mod StartLemmas
pub mod TruthLemmas
pub mod DrawLemmas
pub mod DrillLemmas
pub mod VerdictKindLemmas
pub mod TallyLemmas
