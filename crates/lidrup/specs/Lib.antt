pub mod CubeLog
pub mod Lidrup
pub mod Lines
pub mod NameMaps
pub mod View
pub mod inner
