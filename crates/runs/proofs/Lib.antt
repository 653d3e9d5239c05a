mod Machines
mod Counts
mod Closings
mod Turns
