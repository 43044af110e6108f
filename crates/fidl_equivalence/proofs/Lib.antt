pub mod Types
pub mod Levels
pub mod Small
