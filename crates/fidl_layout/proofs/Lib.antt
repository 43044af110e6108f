pub mod Forms
pub mod Excluded
pub mod Starts
pub mod Found
pub mod Held
pub mod FirstVectors
