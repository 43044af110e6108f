pub mod Excluded
pub mod Named
pub mod Small
pub mod Closed
pub mod Stood
pub mod Held
pub mod Aliases
