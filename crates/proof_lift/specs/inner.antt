-- What only private contracts, invariants and proofs name. Nothing here is to be believed.
pub mod Clean
pub mod EmptyLemma
pub mod Faults
pub mod Images
pub mod Lines
pub mod Linked
pub mod Reached
pub mod Propagation
pub mod Ready
pub mod Stream
pub mod Tables
pub mod Walks
pub mod Output
