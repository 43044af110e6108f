-- What a written table shows of its library, in the order in which to read it:
--   Definitions  the entries of definitions, by name and by what their values are
--   Roots        the roots
--   Protocols    protocols and their methods
--   Entries      the entries, in their order
--   Shows        the whole table
-- Listed is of the code alone: methods and protocols on the way to a table. Samples has small
-- tables, methods and protocols for worked facts.
pub mod Definitions
pub mod Roots
pub mod Protocols
pub mod Entries
pub mod Shows
pub mod Listed
pub mod Samples
