-- The definitions of the commands over tables and messages, in the order in which to read them:
--   Running        what these commands answer to their arguments and files
--   Decoding       what the command `decode` answers
--   Encoding       what the command `encode` answers
--   Listing        what the command `table` answers
--   Migrating      what the command `migrate` answers
--   Summary        the line that says what a table holds
--   Explaining     what the command `explain` answers
--   Contents       what a file or the standard input holds that an argument names
--   Naming         the names of a table's roots and protocols
--   Reasons        what is answered where a command line gives no arguments
--   Status         how the program ends
--   Files          what is known of files, and what is printed of one that is missing
--   Outputs        which lines are printed, and when an output has failed
pub mod Status
pub mod Files
pub mod Reasons
pub mod Outputs
pub mod Contents
pub mod Naming
pub mod Decoding
pub mod Encoding
pub mod Listing
pub mod Explaining
pub mod Running
pub mod Summary
pub mod Migrating
