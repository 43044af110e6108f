mod Refused
mod Zipped
mod Whole
