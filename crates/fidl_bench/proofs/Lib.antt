pub mod Roots
pub mod Writing
pub mod Spelling
