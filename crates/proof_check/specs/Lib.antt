pub mod BinaryProof
pub mod FirstFault
pub mod Forms
pub mod ProofChecks
pub mod Reports
pub mod Stream
pub mod Truth
pub mod inner
