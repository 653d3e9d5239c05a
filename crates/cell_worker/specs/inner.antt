pub mod KeptSession
pub mod OwnLines
pub mod SharedLines
