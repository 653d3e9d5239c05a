pub mod NameLemmas
pub mod ProgramLemmas
pub mod RefusalLemmas
pub mod RequestLemmas
pub mod SolverLemmas
pub mod WordLemmas
