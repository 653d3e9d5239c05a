-- What only private contracts, invariants and proofs name. Nothing here is to be believed.
pub mod AppendedCubes
pub mod DescentInvariant
pub mod Marks
pub mod OpenClauses
pub mod Places
pub mod Ranks
pub mod Tallies
pub mod WalkInvariant
