-- The definitions of the program, in the order in which to read them:
--   Running        what the program answers to its words and its files
--   Compiling      what the command `compile` answers
pub mod Compiling
pub mod Running
