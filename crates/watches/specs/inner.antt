-- What only private contracts, invariants and proofs name. Nothing here is to be believed.
pub mod ReasonLaws
pub mod WatchLists
pub mod MovedRefs
pub mod Ready
pub mod ReadyLaws
pub mod ScanLaws
pub mod LiveClauses
pub mod TrailTables
pub mod ListWalk
pub mod WatchInvariants
