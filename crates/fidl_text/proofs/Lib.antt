pub mod Written
mod Quoting
mod HexLeft
mod Records
mod Sinks
