pub mod Examples
pub mod SharedLeaves
pub mod SharedLogs
pub mod SharedText
pub mod WovenLogs
