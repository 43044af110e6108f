-- The definitions of the notation's writer, in the order in which to read them:
--   Parts          what the printer is given, and what it writes
--   Slots          the same of the members of tables and unions
pub mod Parts
pub mod Slots
