pub mod Agreement
pub mod Closed
pub mod Formulas
pub mod Members
pub mod Nodes
pub mod OpenSchedule
pub mod inner
