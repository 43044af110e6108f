-- The definitions of the coding table, in the order in which to read them:
--   Section        the sections and their records
--   Kind           the kinds of entries
--   Uses           what the entries of each kind use
--   Terms          the types that entries declare
--   Name           which bytes names have
--   Entry, Root    the rules of an entry and of a root
--   Protocol       the rules of a protocol
--   Method         the rules of a method
--   WellFormed     which tables are accepted
--   Number         numbers at places of a message
--   Samples        small tables for worked facts
pub mod Kind
pub mod Section
pub mod Terms
pub mod Number
pub mod Name
pub mod Uses
pub mod Entry
pub mod Root
pub mod Protocol
pub mod Method
pub mod WellFormed
pub mod Samples
