-- What only private contracts, invariants and proofs name. Nothing here is to be believed.
pub mod Join
pub mod CheckedLines
pub mod SplitReader
pub mod SplitVariable
pub mod BlockReport
pub mod BlockSearch
pub mod GrowingSearch
