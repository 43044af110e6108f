-- The definitions of the notation, in the order in which to read them:
--   Words          the words of a text
--   Spells         which texts spell a value
--   Readable       types whose members can be told by their names
--   Nested         types in which structs and arrays stand in one another within the limit
pub mod Words
pub mod Spells
pub mod Readable
pub mod Nested
