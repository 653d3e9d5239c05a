pub mod Completion
pub mod Divergence
pub mod CubeList
pub mod inner
