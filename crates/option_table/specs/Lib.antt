pub mod Found
pub mod Refusals
pub mod Rules
pub mod inner
