pub mod Handshakes
pub mod Links
pub mod Meetings
pub mod Numbers
pub mod Records
pub mod SipHash
pub mod inner
