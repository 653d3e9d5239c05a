pub mod CommandLine
pub mod Options
pub mod Program
pub mod SolverTable
pub mod SolverWords
pub mod inner
