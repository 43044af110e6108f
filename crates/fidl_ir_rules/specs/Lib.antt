-- Rules over definitions, in the order in which to read them:
--   Resources    which definitions are resources, and what may hold them
--   Inline       structs that stand in one another
--   Faults       what each refusal says
-- The others are of the code alone (Flags), and terms for worked facts (Samples).
pub mod Resources
pub mod Inline
pub mod Faults
pub mod Flags
pub mod Samples
