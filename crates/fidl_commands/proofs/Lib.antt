pub mod Told
mod Names
