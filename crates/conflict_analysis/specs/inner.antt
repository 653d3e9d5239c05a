-- What only private contracts, invariants and proofs name. Nothing here is to be believed.
pub mod Sizes
pub mod Minimiser
pub mod Seen
pub mod Tallies
pub mod FinalAnalysis
pub mod TrailWalk
