pub mod Lines
pub mod Looks
pub mod Names
pub mod Table
pub mod Words
