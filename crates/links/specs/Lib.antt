pub mod Counts
pub mod Ends
pub mod Counted
pub mod Scripted
pub mod Linked
pub mod Arrivals
pub mod CountedArrivals
