-- What a table that is assembled shows, in the order in which to read it:
--   Starts     the definitions from which the types are reached
--   Roots      the roots, by their names and their definitions
--   Methods    what the messages of methods carry, methods and protocols
--   Assembled  the whole table
--   Samples    small tables, methods and protocols for worked facts
pub mod Starts
pub mod Roots
pub mod Methods
pub mod Assembled
pub mod Samples
