-- What only private contracts, invariants and proofs name. Nothing here is to be believed.
pub mod Accounts
pub mod Deliveries
pub mod Handshakes
pub mod Connections
pub mod Timeouts
pub mod Rounds
pub mod Registrations
