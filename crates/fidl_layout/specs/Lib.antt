-- The figures of checked files, in the order in which to read them:
--   Roots       the forms of declared types
--   Written     how many members are written in bits and enums
--   Uses        the types that are written, and when they are within the limits
--   Laid        when checked files are laid out within the limits
--   Faults      what each refusal says
--   FaultNames  the numbers, names and places of refusals
-- The last is of the code alone (Shallow).
pub mod Roots
pub mod Written
pub mod Uses
pub mod Laid
pub mod Faults
pub mod FaultNames
pub mod Shallow
