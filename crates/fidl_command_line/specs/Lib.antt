-- The definitions of the command line, in the order in which to read them:
--   CommandLine    the command line, in clap's words
--   Handles        handles as they are written
--   Contents       where the text of an argument stands, and the bytes of a message
--   Arguments      what the words of a command line give, and why they give no arguments
--   Complaints     what is wrong with a command line, in one line
pub mod CommandLine
pub mod Handles
pub mod Contents
pub mod Arguments
pub mod Complaints
