pub mod Places
pub mod Fields
pub mod Rows
pub mod Listed
pub mod Levels
pub mod Small
