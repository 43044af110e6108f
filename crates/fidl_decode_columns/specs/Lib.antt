-- Structs that stand behind one another, checked member by member:
--   Columns   what a column of numbers is, and how far structs are read
--   Samples   the columns, structs and tables of the worked facts
pub mod Columns
pub mod Samples
