pub mod AddedClauses
pub mod Laws
pub mod Worker
pub mod inner
