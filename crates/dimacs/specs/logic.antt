-- Formulas, and what it means that they are true or follow: nothing here knows of texts or of programs.
pub mod Base
pub mod ClauseMap
pub mod Cnf
pub mod Examples
pub mod Extension
pub mod Limits
pub mod Literal
pub mod Propagation
pub mod Rat
