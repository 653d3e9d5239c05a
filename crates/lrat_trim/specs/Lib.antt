pub mod Reports
pub mod TrimmedProof
pub mod inner
