pub mod Counting
pub mod Descending
pub mod Heads
pub mod Indexing
pub mod OneTerm
