pub mod Agree
pub mod Figures
pub mod Sizes
pub mod Stand
pub mod Unique
pub mod Whole
