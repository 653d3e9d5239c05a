pub mod TrimmedFragment
