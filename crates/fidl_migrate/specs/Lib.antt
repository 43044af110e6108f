-- What a migrated table keeps, and lists of ranges.
pub mod Migrated
pub mod Kept
pub mod Ranges
