-- The definitions of figures within the limits, in the order in which to read them:
--   Limits       what stands in a term, and the limits of sizes, nests and members
--   Nesting      how many structs and arrays stand inline in one another
--   Solutions    figures of some of the definitions
--   Faults       what each refusal says
--   Views, Found what the code's figures stand for
-- The others are of the code alone (Excesses, Progress), and terms for worked facts (Samples).
pub mod Limits
pub mod Nesting
pub mod Solutions
pub mod Faults
pub mod Views
pub mod Found
pub mod Excesses
pub mod Progress
pub mod Samples
