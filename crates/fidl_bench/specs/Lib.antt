pub mod Failures
pub mod Texts
pub mod Spelled
