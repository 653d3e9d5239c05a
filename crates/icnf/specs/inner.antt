-- What only private contracts, invariants and proofs name. Nothing here is to be believed.
pub mod Comparison
pub mod Cubes
pub mod Lines
pub mod ReadState
pub mod Spans
pub mod TreeBody
pub mod Walk
