pub mod AgreementLemmas
pub mod ScheduleLemmas
pub mod NothingLemmas
pub mod MemberLemmas
pub mod ClosedLemmas
