pub mod Forms
pub mod Pieces
pub mod SameSteps
pub mod inner
