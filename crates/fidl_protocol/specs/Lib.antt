-- The definitions of checked protocols, in the order in which to read them:
--   Methods   the methods of a protocol, its own and composed ones
--   Starts    the definitions from which a table's types are reached
--   Checked   when the protocols of files keep all rules, and what is held of such files
--   Faults    what each refusal says
--   FaultNames  their numbers, names and places
-- Gathered is of the code alone: methods on the way to all of a protocol.
pub mod Methods
pub mod Starts
pub mod Checked
pub mod Faults
pub mod FaultNames
pub mod Gathered
