pub mod Slots
pub mod Tables
mod Quoting
pub mod Printing
pub mod EntryTexts
pub mod Numbers
mod RawText
