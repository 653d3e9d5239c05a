pub mod ProofCheckerLemmas
pub mod DeliveryLemmas
pub mod SearchLemmas
pub mod AddedClausesLemmas
