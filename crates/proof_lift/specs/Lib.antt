pub mod Leaves
pub mod LiftedText
pub mod Stream
pub mod TrimmedLemma
pub mod View
pub mod HintWalk
pub mod inner
