-- Formulas as texts: the grammar, the first fault, what is written, and the answer lines.
pub mod Answer
pub mod BodyState
pub mod Faults
pub mod Numbers
pub mod Pieces
pub mod Parser
pub mod Rows
pub mod Grammar
pub mod Words
