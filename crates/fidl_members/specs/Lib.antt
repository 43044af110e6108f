-- Members of structs and tables that are looked up once, in the order in which to read them:
--   Scalars        the types of bools and numbers, and what stands at a place as one
--   Entries        an entry of a table, and the entry that a type is named by
--   Owners         whose members a column or a slot reads
--   Samples        the tables of the worked facts
pub mod Scalars
pub mod Entries
pub mod Owners
pub mod Samples
