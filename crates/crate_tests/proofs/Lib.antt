pub mod SmallConflict
