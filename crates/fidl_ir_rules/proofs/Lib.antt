pub mod Seen
pub mod Flagged
pub mod Targets
pub mod Excluded
