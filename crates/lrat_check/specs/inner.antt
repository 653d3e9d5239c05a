-- What only private contracts, invariants and proofs name. Nothing here is to be believed.
pub mod Blocks
pub mod Cell
pub mod Changes
pub mod LineOutcomes
pub mod Faults
pub mod Holders
pub mod HolderCount
pub mod Lines
pub mod LogStates
pub mod Logs
pub mod Marks
pub mod CandidateOrder
pub mod State
pub mod Store
pub mod Stream
pub mod LiteralTable
