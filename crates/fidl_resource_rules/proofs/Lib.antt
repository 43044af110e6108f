pub mod Excluded
pub mod Layouts
pub mod Names
pub mod Reports
pub mod Small
