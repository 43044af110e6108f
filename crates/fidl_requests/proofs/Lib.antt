pub mod Asked
pub mod Exits
pub mod Framed
pub mod Numbered
pub mod One
pub mod Sampled
