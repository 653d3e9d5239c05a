-- What only private contracts, invariants and proofs name. Nothing here is to be believed.
pub mod BuilderLayout
pub mod Capped
pub mod Codes
pub mod Pieces
pub mod Rows
pub mod Words
