pub mod Faults
pub mod Form
pub mod Grammar
pub mod Moves
pub mod Parts
pub mod Reading
pub mod Whole
