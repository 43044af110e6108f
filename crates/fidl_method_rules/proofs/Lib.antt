pub mod Cuts
pub mod Entries
pub mod Excluded
pub mod FullNames
pub mod Reports
pub mod Selecting
pub mod Small
