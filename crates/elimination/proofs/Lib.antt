pub mod AddingLemmas
pub mod GatherLemmas
pub mod IndexLemmas
pub mod PickLemmas
