-- The types of a coding table's entries, in the order in which to read them:
--   Reached  the types that roots reach, and lists of just these
--   Faults   what each refusal says
-- The others are of the code alone: the words by which types are told apart (Keys), and lists that
-- grow (Growing); and terms for worked facts (Samples).
pub mod Reached
pub mod Faults
pub mod Keys
pub mod Growing
pub mod Samples
