pub mod Hmac
pub mod Macs
