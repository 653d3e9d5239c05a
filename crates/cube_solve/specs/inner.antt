-- What only private contracts, invariants and proofs name. Nothing here is to be believed.
pub mod Reduction
pub mod CopiedClauses
pub mod LearntLog
pub mod Twins
pub mod Marks
pub mod DecisionOrder
pub mod Luby
pub mod Queries
pub mod State
pub mod SearchInvariants
pub mod Steps
pub mod UnitClauses
pub mod Turns
