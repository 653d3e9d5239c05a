-- What only private contracts, invariants and proofs name. Nothing here is to be believed.
pub mod Changes
pub mod NextEvent
pub mod Known
