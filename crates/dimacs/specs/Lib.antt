pub mod inner
pub mod layout
pub mod logic
pub mod text
