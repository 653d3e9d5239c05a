pub mod Faults
pub mod Grammar
pub mod Pieces
pub mod Parse
pub mod Reports
pub mod inner
