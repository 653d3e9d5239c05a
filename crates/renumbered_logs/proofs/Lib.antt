pub mod PlaceLemmas
pub mod LiveLemmas
pub mod BehindLemmas
pub mod WholeLemmas
pub mod RenumberingLemmas
