-- What only private contracts, invariants and proofs name. Nothing here is to be believed.
pub mod KeptLemmas
pub mod Heads
pub mod LemmaLines
pub mod NonEmpty
