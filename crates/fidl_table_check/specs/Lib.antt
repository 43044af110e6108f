-- Coding tables whose entries are the types of a list, in the order in which to read them:
--   Numbered  what such a table is, and what it shows
--   Members   when a row of a table is a member of a layout, as the code compares them
--   Samples   small tables and lists for worked facts
pub mod Numbered
pub mod Members
pub mod Samples
