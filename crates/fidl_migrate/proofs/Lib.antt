pub mod Spans
pub mod Moved
pub mod Kept
pub mod Apart
pub mod Enums
