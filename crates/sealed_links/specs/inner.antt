pub mod HandsOn
pub mod Looks
