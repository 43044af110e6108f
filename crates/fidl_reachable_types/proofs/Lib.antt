pub mod Members
pub mod Words
pub mod Known
pub mod Growth
pub mod Reaching
pub mod Small
pub mod OneList
