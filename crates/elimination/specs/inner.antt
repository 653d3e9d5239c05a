-- What only private contracts, invariants and proofs name. Nothing here is to be believed.
pub mod Gathered
pub mod Indexed
pub mod Reducing
pub mod Resolvents
