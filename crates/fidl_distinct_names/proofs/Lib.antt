mod Walked
mod Forms
mod Plain
mod Rows
pub mod Tables
