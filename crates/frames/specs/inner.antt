-- What only private contracts, invariants and proofs name. Nothing here is to be believed.
pub mod Buffer
pub mod Readers
pub mod Decoder
pub mod AnswerField
pub mod Puts
