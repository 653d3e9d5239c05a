-- How formulas and clauses lie in memory. No grammar, fault or law of logic depends on it.
pub mod BuilderState
pub mod Flat
