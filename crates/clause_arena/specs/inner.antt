-- What only private contracts, invariants and proofs name. Nothing here is to be believed.
pub mod Blocks
pub mod Cell
pub mod Clauses
pub mod Contents
pub mod Relocation
pub mod Slots
