pub mod Lists
pub mod Finding
pub mod Shown
pub mod Small
