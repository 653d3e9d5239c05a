-- What only private contracts, invariants and proofs name. Nothing here is to be believed.
pub mod Accounts
pub mod Connections
pub mod LocalWorkers
